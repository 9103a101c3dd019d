pub mod Calling
pub mod Changing
pub mod Rows
pub mod Telling
pub mod Waiting
