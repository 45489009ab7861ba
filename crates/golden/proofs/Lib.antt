pub mod Computed
pub mod Turns
pub mod Runs
