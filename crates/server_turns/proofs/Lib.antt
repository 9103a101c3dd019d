pub mod Adding
pub mod Turnings
