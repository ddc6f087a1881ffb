pub mod Numbers
pub mod Parsing
pub mod Rules
