pub mod Flats
pub mod Capping
pub mod Goings
pub mod Ends
pub mod Rims
pub mod Giving
pub mod Slides
