-- What only proofs use.
pub mod Answers
pub mod Labels
pub mod Fitting
