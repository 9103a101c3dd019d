pub mod Doing
pub mod Placing
pub mod Rows
