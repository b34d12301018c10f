pub mod Counting
pub mod Ending
