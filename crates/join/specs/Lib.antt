pub mod Join
pub mod Law
