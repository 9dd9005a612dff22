pub mod Split
pub mod Numerals
pub mod Input
