-- What only private contracts and proofs use, here and in the crates of workers.
pub mod Lists
pub mod Seated
