pub mod Lines
pub mod Testing
pub mod Going
pub mod Equal
pub mod Keeping
pub mod Walking
pub mod Following
