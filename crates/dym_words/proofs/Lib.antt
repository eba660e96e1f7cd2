pub mod Texts
pub mod Parsed
pub mod Within
