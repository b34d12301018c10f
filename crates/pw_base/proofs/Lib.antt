pub mod Answers
pub mod Counting
pub mod Keeping
pub mod ThinBlocks
pub mod ThinCrosses
pub mod Facts
pub mod Filled
