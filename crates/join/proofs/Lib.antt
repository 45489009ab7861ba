pub mod Whenever
pub mod Tables
pub mod Taking
pub mod Answering
