pub mod Cuts
pub mod Feeds
pub mod Front
pub mod Names
