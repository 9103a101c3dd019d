pub mod Strangers
pub mod Untold
pub mod Rows
