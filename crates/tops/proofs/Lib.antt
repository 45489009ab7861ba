pub mod Fractions
pub mod Products
pub mod Weights
pub mod Tops
