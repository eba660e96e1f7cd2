pub mod Addresses
pub mod Commands
pub mod Keeps
pub mod Meaning
pub mod Places
pub mod Touches
