pub mod Mesh
pub mod Axis
pub mod Inside
