mod Clocks
pub mod Notings
mod Takings
pub mod Walks
mod Writes
pub mod lemmas
