pub mod Driven
pub mod Keeping
pub mod inner
pub mod Drives
