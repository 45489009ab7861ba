pub mod Digits
pub mod Stores
pub mod Rows
pub mod Writing
pub mod Back
pub mod Again
