pub mod Grid
pub mod Build
pub mod Index
pub mod Inside
