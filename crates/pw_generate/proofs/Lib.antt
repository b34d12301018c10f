pub mod NameLaws
pub mod TableRanges
pub mod Writable
pub mod Lines
mod Examples
mod Ranges
mod Entries
mod Numbered
mod Looking
mod Members
mod Parents
mod Parts
mod Limits
pub mod Whole
pub mod Loads
mod Fitness
pub mod Apart
pub mod Counted
mod SummaryExamples
pub mod Orders
pub mod Printed
pub mod Summaries
pub mod Adding
