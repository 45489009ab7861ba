pub mod Rings
pub mod Lists
pub mod Marks
pub mod Shorter
