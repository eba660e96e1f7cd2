pub mod KeepsRule
pub mod Places
