pub mod Reading
pub mod Building
