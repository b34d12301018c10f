pub mod Sent
pub mod Stopping
pub mod Completeness
pub mod Outcomes
pub mod Repeats
pub mod One
