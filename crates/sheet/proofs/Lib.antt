pub mod Lists
pub mod Loops
pub mod Sheets
pub mod Curved
pub mod Corners
pub mod Enclosures
