pub mod inner
pub mod Domains
pub mod Groups
