pub mod Tables
pub mod Devices
pub mod CpcDomains
pub mod Notes
pub mod Passed
pub mod Machine
pub mod Laws
pub mod inner
