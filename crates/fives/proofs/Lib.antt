pub mod Writing
pub mod Grouping
