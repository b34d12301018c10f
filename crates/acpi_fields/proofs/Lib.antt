pub mod RowLists
pub mod Fields
pub mod DependencyBack
pub mod Inversion
pub mod DependencyMeaning
pub mod Writable
pub mod Templates
