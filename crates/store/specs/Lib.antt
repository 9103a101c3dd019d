pub mod Memory
pub mod Records
pub mod Rows
