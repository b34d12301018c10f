pub mod CompactList
