pub mod Entries
pub mod Journaled
pub mod Reported
