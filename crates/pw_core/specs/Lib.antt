pub mod Chains
pub mod inner
