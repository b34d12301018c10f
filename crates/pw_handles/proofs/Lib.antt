pub mod AsBox
pub mod Places
pub mod Handling
