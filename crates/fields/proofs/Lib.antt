pub mod Bytes
pub mod Finite
pub mod Tables
pub mod Rows
pub mod Room
pub mod Lengths
pub mod Copies
