pub mod Cells
pub mod Pooled
