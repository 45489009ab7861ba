pub mod Above
pub mod Inside
