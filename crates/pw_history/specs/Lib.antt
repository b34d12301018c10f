pub mod Asked
pub mod HistoryText
pub mod inner
pub mod Paths
pub mod Telling
pub mod Wholes
pub mod Wording
