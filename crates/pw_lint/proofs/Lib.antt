pub mod Clean
pub mod Found
pub mod FoundDevices
pub mod FoundParents
pub mod FoundStates
pub mod Given
pub mod Nothing
pub mod Refused
