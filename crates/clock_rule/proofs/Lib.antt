pub mod Least
pub mod Windows
pub mod lemmas
