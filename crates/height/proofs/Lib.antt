pub mod Raising
pub mod Sweeping
pub mod Answering
pub mod Heights
pub mod Demanding
