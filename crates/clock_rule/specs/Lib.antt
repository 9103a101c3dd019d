pub mod Clocks
pub mod Keeping
pub mod Rows
pub mod Windows
