pub mod Micro
