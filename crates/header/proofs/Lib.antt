pub mod Ands
pub mod Ranges
