pub mod Extents
pub mod Places
pub mod Gridding
pub mod Accepting
pub mod Indexing
