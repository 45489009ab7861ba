pub mod Signed
pub mod Ranges
pub mod Order
pub mod Extremes
pub mod Strict
pub mod Roots
pub mod Rounded
pub mod Whole
