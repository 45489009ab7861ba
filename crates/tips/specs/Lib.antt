pub mod Contact
pub mod Inside
