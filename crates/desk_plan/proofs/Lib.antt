pub mod Along
