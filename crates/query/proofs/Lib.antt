pub mod Patches
pub mod Stretches
pub mod Using
pub mod Passing
pub mod Looks
pub mod Nearby
pub mod Recent
pub mod Gathering
