pub mod Written
pub mod Lettered
