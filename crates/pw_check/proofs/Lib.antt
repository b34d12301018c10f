pub mod Fed
pub mod Listed
