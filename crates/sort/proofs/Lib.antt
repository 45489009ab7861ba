pub mod Counts
pub mod Heaps
pub mod Orders
pub mod Ranking
