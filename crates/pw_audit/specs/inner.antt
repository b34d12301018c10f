pub mod Answering
pub mod Heading
pub mod Looking
pub mod Outcomes
pub mod Queues
pub mod Stopping
pub mod Walking
