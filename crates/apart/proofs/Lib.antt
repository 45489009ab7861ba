pub mod Farther
