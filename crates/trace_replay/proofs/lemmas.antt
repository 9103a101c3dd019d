-- What other crates may cite.
pub mod Going
pub mod Warming
