pub mod Reading
pub mod ReadingObjects
pub mod Places
pub mod Filling
