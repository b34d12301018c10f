pub mod Traces
pub mod CppcAudited
pub mod Audited
pub mod Judging
pub mod Tracing
pub mod inner
