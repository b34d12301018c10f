pub mod Words
pub mod Findings
pub mod Firsts
pub mod Scales
pub mod Domains
pub mod inner
