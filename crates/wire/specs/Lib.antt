pub mod Message
pub mod Parse
pub mod Refused
pub mod Size
pub mod Rows
