pub mod Telling
pub mod Turned
