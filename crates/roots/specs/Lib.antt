pub mod Root
pub mod Inside
pub mod Hypot
pub mod Worked
