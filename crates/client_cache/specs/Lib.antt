pub mod Cache
pub mod Rows
