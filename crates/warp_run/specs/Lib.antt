pub mod Urgency
pub mod Queues
pub mod Ends
pub mod Worlds
pub mod Standing
pub mod Failures
