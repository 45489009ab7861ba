pub mod Tables
pub mod Groups
