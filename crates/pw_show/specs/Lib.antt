pub mod inner
pub mod Values
pub mod Show
pub mod Json
