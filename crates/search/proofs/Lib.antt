pub mod Finding
pub mod Directing
pub mod Sweeping
pub mod Starting
