pub mod Counting
pub mod Comparing
pub mod Tabling
pub mod Rebuilding
