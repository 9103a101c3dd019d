mod Entries
mod Shown
pub mod lemmas
