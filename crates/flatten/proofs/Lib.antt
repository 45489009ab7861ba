pub mod Flattening
