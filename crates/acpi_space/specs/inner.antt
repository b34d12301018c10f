pub mod Trees
pub mod Standing
pub mod Naming
