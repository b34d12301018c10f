pub mod Scales
pub mod Objects
pub mod Written
pub mod Meaning
