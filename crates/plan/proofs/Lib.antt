pub mod Counting
pub mod Surveying
pub mod Answering
pub mod Pointing
pub mod Losing
