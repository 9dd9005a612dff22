pub mod Sums
pub mod Wholes
pub mod CountReach
pub mod BestReach
pub mod Refusing
pub mod Answers
