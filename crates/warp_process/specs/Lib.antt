pub mod Savers
pub mod Processes
pub mod Laws
