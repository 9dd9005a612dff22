pub mod Faults
pub mod Semiring
pub mod Numbers
pub mod Limits
pub mod Whole
pub mod Count
pub mod Best
