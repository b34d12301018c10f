pub mod Behind
pub mod Known
pub mod Limiting
pub mod Paths
