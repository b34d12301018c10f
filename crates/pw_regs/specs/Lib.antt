pub mod InMemory
pub mod Registers
pub mod Seen
pub mod Rooms
pub mod Doing
