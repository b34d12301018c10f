pub mod App
pub mod Command
pub mod inner
pub mod Stated
pub mod Words
