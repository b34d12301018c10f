pub mod Back
pub mod MeantCStates
pub mod MeantLpis
pub mod Writable
