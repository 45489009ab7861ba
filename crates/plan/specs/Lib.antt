pub mod Plan
pub mod Inside
pub mod Lost
