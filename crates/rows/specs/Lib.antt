pub mod Lanes
pub mod Stretches
