pub mod Weighing
pub mod Places
pub mod Searching
pub mod Rows
pub mod Bounds
pub mod ChainRuns
pub mod Plain
pub mod Admission
