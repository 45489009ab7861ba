pub mod Lowered
pub mod Resting
pub mod Under
pub mod Same
pub mod Parted
pub mod Own
