pub mod Spread
pub mod Marching
pub mod Blocks
pub mod Facets
pub mod Passing
