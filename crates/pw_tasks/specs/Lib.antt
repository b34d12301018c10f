pub mod Tasks
pub mod Rewritten
