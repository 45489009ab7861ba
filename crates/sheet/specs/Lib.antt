pub mod Sheet
pub mod Enclosing
