pub mod Writer
pub mod Back
