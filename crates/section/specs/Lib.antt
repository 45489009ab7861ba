pub mod Section
pub mod Inside
