-- What only proofs use.
pub mod Wired
