pub mod Statements
pub mod Requests
