pub mod Added
pub mod Below
