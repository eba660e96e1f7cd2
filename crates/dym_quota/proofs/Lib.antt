mod Missing
pub mod Copies
pub mod KeepsRule
pub mod Orders
pub mod Queued
pub mod Runs
pub mod Views
pub mod Weights
