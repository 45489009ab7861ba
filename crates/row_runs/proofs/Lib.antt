pub mod Walking
pub mod Sampling
pub mod Reaching
