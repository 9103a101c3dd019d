-- What other crates may cite.
pub mod Exact
pub mod Framing
pub mod Splitting
pub mod Streaming
