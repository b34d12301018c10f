pub mod Cpcs
pub mod Written
pub mod Meaning
