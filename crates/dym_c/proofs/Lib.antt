pub mod Exports
pub mod HeldSteps
pub mod KeptSteps
pub mod Runs
pub mod Sent
