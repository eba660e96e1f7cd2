pub mod Areas
pub mod Laws
pub mod Offsets
pub mod ParsedAreas
pub mod Contents
pub mod Layouts
