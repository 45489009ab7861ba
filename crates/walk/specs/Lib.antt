pub mod Walk
pub mod Inside
