pub mod Jobs
pub mod Writes
pub mod Stl
