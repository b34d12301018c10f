-- What only private contracts and proofs use.
pub mod Changes
pub mod Drawn
pub mod Kinds
pub mod Known
