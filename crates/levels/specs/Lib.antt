pub mod Flats
pub mod Levels
pub mod Inside
