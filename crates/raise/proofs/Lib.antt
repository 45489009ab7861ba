pub mod Lifting
pub mod Topping
pub mod Afresh
