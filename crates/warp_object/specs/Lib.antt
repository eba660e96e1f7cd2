pub mod Moments
pub mod Processes
