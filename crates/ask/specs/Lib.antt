pub mod Ask
pub mod Demand
