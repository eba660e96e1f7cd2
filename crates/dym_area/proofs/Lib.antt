pub mod Classes
pub mod Taken
pub mod Rooms
pub mod Reach
