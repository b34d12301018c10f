pub mod Idle
pub mod Null
pub mod Registers
