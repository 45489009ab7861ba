pub mod Settling
pub mod Capping
pub mod Passing
