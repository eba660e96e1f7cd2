pub mod Words
pub mod Events
pub mod Messages
pub mod Histories
pub mod Sequential
pub mod Settled
pub mod Laws
