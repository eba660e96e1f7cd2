pub mod Events
pub mod Machine
pub mod Verdict
