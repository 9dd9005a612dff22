pub mod Appending
pub mod Placing
pub mod Merging
pub mod Spelling
pub mod Keeping
pub mod Held
pub mod Lowest
