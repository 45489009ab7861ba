pub mod Turning
pub mod Reaching
