-- What other crates may cite.
pub mod Limits
pub mod States
pub mod Stored
