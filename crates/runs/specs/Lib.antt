pub mod Runs
pub mod Pieces
pub mod Chains
pub mod Inside
