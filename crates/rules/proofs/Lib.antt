pub mod Branches
pub mod Ladder
pub mod Testing
pub mod Times
