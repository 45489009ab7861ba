pub mod Profile
pub mod Capping
pub mod Taking
pub mod Flats
pub mod Goings
pub mod Bases
pub mod Rims
pub mod Giving
