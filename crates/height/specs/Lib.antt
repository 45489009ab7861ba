pub mod Sweep
pub mod Height
pub mod Demand
pub mod Inside
