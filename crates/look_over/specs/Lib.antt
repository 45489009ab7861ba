pub mod Look
pub mod Verdict
pub mod Inside
