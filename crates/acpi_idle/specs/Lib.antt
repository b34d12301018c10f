pub mod CStates
pub mod Lpis
pub mod Written
pub mod Meaning
