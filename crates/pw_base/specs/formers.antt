pub mod boxed
pub mod compact_list
pub mod list
pub mod thin
