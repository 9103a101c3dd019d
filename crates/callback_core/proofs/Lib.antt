pub mod Reached
pub mod Taken
pub mod Changed
