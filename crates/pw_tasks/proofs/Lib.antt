pub mod One
pub mod Parts
pub mod Rewriting
