pub mod Behaviours
pub mod Ledgers
pub mod Logs
pub mod Stepping
pub mod Keeping
pub mod Opening
