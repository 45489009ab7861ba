pub mod Search
pub mod Inside
pub mod Sampled
