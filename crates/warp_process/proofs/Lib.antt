pub mod InOrder
pub mod Outgoing
pub mod Runs
pub mod Steps
pub mod Taking
pub mod Catching
pub mod Opening
pub mod Dates
pub mod Committing
mod Faults
mod Keeping
mod Giving
mod Undoing
