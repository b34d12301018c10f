pub mod Chains
pub mod Compact
pub mod Escapes
pub mod Layers
pub mod Joining
pub mod Listed
pub mod Putting
pub mod Told
