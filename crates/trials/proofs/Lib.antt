pub mod Scales
pub mod Tests
