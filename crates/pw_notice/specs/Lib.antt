pub mod Handling
pub mod Limits
