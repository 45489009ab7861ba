pub mod Tool
