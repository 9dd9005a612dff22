pub mod Verbs
pub mod Openings
pub mod Words
pub mod Replies
