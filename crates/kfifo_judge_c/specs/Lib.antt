pub mod Lines
pub mod Named
pub mod Pictures
pub mod Reports
pub mod Texts
