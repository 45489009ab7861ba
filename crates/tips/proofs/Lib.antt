pub mod Again
pub mod Asking
pub mod Lifting
pub mod Readying
pub mod Walking
