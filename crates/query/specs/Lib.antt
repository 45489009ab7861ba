pub mod Asked
pub mod Patch
pub mod Inside
pub mod Usable
pub mod Looked
