pub mod Wholly
