pub mod Cutting
mod Examples
pub mod Feeds
pub mod Joined
pub mod Leading
pub mod Naming
pub mod Operated
pub mod Pathed
pub mod Printed
pub mod Putting
pub mod Refusing
pub mod Shorts
pub mod Spacing
mod Spelling
pub mod Values
