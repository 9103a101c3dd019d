pub mod Leadings
pub mod Letters
pub mod Runnings
pub mod Sayings
pub mod Worked
mod Cachings
mod Hintings
pub mod Recalls
pub mod lemmas
