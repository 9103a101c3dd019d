pub mod Talk
pub mod Rounds
pub mod Whole
pub mod Arrivals
