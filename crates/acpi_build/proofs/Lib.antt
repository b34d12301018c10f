pub mod Each
mod Counting
mod Found
pub mod Orders
mod Sorting
pub mod Keeping
pub mod Parents
pub mod Planned
mod Who
mod Innermost
mod Labelled
mod Rows
mod Steady
mod Yielding
mod Ranks
pub mod OneTable
mod Tabled
mod Sourced
mod Causes
pub mod Countability
