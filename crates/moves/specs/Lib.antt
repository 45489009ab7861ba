pub mod Phases
pub mod Begin
pub mod Next
pub mod Whole
pub mod Laws
