pub mod Ladder
pub mod Every
pub mod Limits
