pub mod Names
pub mod Tables
pub mod Machines
pub mod Loads
pub mod Planned
pub mod Summary
pub mod inner
