pub mod Turns
pub mod Ran
pub mod Repeated
