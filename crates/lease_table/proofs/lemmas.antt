-- What other crates may cite.
pub mod Held
pub mod Keeping
pub mod Lists
