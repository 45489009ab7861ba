pub mod Apart
pub mod Limits
pub mod Squares
