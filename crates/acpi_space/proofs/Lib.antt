pub mod Seen
pub mod Trees
pub mod Known
pub mod Passing
pub mod TermSteps
pub mod Lookups
mod Rising
mod Ranges
mod Naming
mod Opening
mod Widths
