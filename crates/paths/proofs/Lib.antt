pub mod Unknown
pub mod Ladder
pub mod Apart
