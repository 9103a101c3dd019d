-- What other crates may cite.
pub mod Admitted
pub mod Found
