pub mod Places
pub mod Most
pub mod Bracket
pub mod Inside
pub mod Boxes
pub mod Drops
pub mod Narrow
pub mod Beside
