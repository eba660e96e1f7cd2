pub mod Block
pub mod Content
pub mod Identity
