pub mod Ranges
pub mod Mesh
pub mod Contacts
pub mod Distance
