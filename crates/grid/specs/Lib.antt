pub mod Grid
pub mod Boxes
pub mod Header
pub mod Build
pub mod Index
pub mod Inside
