pub mod Bull
pub mod Inside
