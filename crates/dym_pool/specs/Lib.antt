pub mod BoxedJobs
pub mod Deques
pub mod Holdings
pub mod Jobs
pub mod Shares
