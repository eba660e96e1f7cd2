pub mod Steps
pub mod Calls
pub mod Runs
pub mod Ends
pub mod ReadRoom
