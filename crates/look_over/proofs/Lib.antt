pub mod Listing
pub mod Asking
pub mod Trying
pub mod Looking
