pub mod Null
