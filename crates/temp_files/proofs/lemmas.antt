-- What other crates may cite.
pub mod Entries
pub mod Joins
