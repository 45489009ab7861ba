pub mod Peaks
pub mod Walks
pub mod Serving
pub mod Scanning
