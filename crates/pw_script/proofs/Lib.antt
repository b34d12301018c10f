pub mod Askable
pub mod Counts
mod Examples
pub mod Existing
pub mod Replied
pub mod Limiting
pub mod Lined
pub mod Sourced
pub mod Making
pub mod Noticing
pub mod Orders
pub mod Pathed
pub mod Printed
pub mod Spacing
pub mod TextWords
pub mod Readers
pub mod Told
