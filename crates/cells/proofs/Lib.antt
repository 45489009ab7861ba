pub mod Sets
pub mod Members
pub mod Entries
pub mod Filling
pub mod Building
pub mod Totals
pub mod Reading
