pub mod Little
pub mod Rows
pub mod Room
pub mod Length
pub mod Copies
