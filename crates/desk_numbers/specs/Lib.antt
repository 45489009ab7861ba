pub mod Contacts
pub mod Version
