pub mod Again
pub mod Passes
pub mod Running
pub mod Taken
pub mod Totals
pub mod Work
