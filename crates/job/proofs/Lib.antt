pub mod Heads
pub mod Ladder
pub mod Reading
pub mod Apart
pub mod Long
