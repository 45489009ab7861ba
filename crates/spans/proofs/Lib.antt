pub mod Searching
pub mod Folding
pub mod Rounding
pub mod Sizes
pub mod Extremes
pub mod Scales
pub mod Plain
pub mod Nearby
