pub mod Groups
pub mod Tests
