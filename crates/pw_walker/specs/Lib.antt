pub mod Records
pub mod Places
pub mod Undoing
pub mod inner
