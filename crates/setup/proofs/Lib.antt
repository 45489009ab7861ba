pub mod Reaching
pub mod Heads
pub mod Looking
pub mod Plainly
pub mod Meeting
pub mod Answering
pub mod Promising
