pub mod Idle
pub mod CStates
pub mod Parents
pub mod Cpcs
pub mod Objects
