-- What only private contracts and proofs use: reading from left to right, and a file step by step.
pub mod Reading
pub mod Content
-- What only private contracts and proofs use: reading from left to right, and bytes that are appended.
pub mod ReadingParts
pub mod Fronts
pub mod TermReading
pub mod Appending
