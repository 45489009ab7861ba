pub mod Picking
pub mod Gathering
pub mod Equal
pub mod Again
pub mod Extremes
pub mod Answers
pub mod Leaving
