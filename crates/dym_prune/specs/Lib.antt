pub mod Stops
pub mod Sweeps
