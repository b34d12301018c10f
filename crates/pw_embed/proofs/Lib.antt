pub mod Asking
pub mod Leading
pub mod Refusing
pub mod Writing
pub mod Starting
