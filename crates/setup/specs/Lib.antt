pub mod Question
pub mod Answer
pub mod Demand
pub mod Inside
