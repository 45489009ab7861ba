pub mod Gathering
pub mod Collecting
pub mod Boxes
