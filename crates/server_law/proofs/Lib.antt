pub mod Calls
pub mod Changes
pub mod Facts
pub mod lemmas
