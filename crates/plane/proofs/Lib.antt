pub mod Taking
pub mod Higher
pub mod Raises
pub mod Ranges
pub mod Sides
