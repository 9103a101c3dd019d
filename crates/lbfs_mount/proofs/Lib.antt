pub mod Coming
pub mod Lines
mod Progress
mod Skipping
mod Cachings
mod Savings
mod HeardAll
