-- What other crates may cite.
pub mod Held
pub mod There
