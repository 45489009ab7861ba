pub mod Phi
pub mod Search
pub mod Upper
