pub mod Gridding
pub mod Boxing
pub mod Accepting
pub mod Indexing
