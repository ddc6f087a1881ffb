pub mod Drawing
pub mod Reach
