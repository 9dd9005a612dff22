pub mod Rules
pub mod Alike
pub mod Layout
pub mod Firsts
pub mod Tests
pub mod Answer
pub mod Promises
pub mod Views
