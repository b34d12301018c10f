pub mod Propositions
pub mod Starting
