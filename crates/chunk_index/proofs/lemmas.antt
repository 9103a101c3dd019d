-- What other crates may cite.
pub mod Recent
