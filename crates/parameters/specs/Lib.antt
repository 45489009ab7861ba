pub mod Terms
pub mod Inside
