pub mod Holds
pub mod Enter
pub mod Weigh
pub mod Join
pub mod Part
pub mod Calls
pub mod History
pub mod Law
