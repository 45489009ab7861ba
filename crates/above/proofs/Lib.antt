pub mod Above
pub mod Beside
