pub mod Demand
pub mod Chords
pub mod Inside
