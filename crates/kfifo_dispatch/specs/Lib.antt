pub mod Faults
pub mod Jobs
pub mod Running
pub mod Starts
pub mod Tasks
pub mod Working
