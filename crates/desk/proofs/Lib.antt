pub mod Left
pub mod Along
