pub mod Numbers
pub mod Stores
pub mod Ladder
pub mod Reading
pub mod Ignored
pub mod Copies
