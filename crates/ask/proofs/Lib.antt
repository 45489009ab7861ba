pub mod Narrowing
pub mod Answers
pub mod Demands
