pub mod History
pub mod Joining
pub mod Memory
pub mod Renewing
pub mod Departed
pub mod Cells
