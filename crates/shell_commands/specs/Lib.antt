pub mod Here
pub mod Lines
pub mod Rows
