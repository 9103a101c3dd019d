-- What other crates may cite.
pub mod Bounds
pub mod Edits
pub mod Keeping
pub mod Locals
pub mod Pending
pub mod Warming
