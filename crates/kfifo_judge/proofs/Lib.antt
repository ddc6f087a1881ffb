pub mod Writing
pub mod Texts
pub mod Beginnings
pub mod Ranking
pub mod Reading
pub mod Reporting
mod Streaming
