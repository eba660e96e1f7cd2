pub mod Orders
pub mod Marks
pub mod Timelines
pub mod Meaning
pub mod Answers
pub mod Laws
