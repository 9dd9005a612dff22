pub mod Opening
pub mod Chaining
pub mod Serving
pub mod Answering
