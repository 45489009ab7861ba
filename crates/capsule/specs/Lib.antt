pub mod Region
pub mod Candidates
pub mod Inside
