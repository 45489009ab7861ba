pub mod Probe
pub mod Inside
