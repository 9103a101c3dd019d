pub mod Parts
pub mod Content
pub mod Fields
pub mod Commands
pub mod Paths
pub mod Reading
pub mod Rows
