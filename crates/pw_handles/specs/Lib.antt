pub mod Handles
pub mod Handled
pub mod Seated
pub mod Endless
pub mod Lending
