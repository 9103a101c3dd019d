pub mod Cached
pub mod Going
pub mod Listed
pub mod Saying
