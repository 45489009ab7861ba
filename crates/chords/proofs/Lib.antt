pub mod Ruling
pub mod Asking
