pub mod Ids
pub mod Keeping
pub mod Openings
pub mod Stepping
pub mod lemmas
