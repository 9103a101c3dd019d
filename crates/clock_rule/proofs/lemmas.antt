-- What other crates may cite.
pub mod Keeping
pub mod Lists
pub mod Whole
