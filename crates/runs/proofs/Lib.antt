pub mod Tallying
pub mod Chaining
