pub mod Reading
pub mod Dependencies
pub mod Writing
pub mod Meaning
pub mod Rows
