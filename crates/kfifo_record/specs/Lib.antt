pub mod Scripts
pub mod Repeats
