pub mod Gates
pub mod Chains
pub mod Refusals
