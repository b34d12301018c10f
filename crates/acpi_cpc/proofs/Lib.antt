pub mod Back
pub mod Meant
pub mod Writable
