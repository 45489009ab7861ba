pub mod Reals
pub mod Rounding
pub mod Order
pub mod Worked
