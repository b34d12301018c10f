-- What only proofs use.
pub mod Once
pub mod DomainList
pub mod EntryTables
pub mod Memberships
pub mod Paths
