pub mod Ranks
pub mod Inside
