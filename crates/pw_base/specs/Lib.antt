pub mod formers
pub mod Answers
pub mod Block
pub mod InMemory
pub mod Outside
pub mod Room
pub mod Seen
