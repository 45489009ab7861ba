pub mod Unit
pub mod Held
pub mod Along
pub mod Small
pub mod Near
pub mod Far
