pub mod Lines
pub mod Steps
pub mod Seen
pub mod Ends
