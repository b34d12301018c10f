-- What only proofs use.
pub mod Reading
-- What only private contracts and proofs use.
pub mod Changes
pub mod Stood
