pub mod Numbers
pub mod CheckText
pub mod Refusals
