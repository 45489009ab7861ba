pub mod Cover
pub mod Inside
