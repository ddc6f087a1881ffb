pub mod Picks
pub mod Scripts
pub mod Player
pub mod Reports
pub mod Finishing
pub mod Faults
pub mod Steps
pub mod Traces
