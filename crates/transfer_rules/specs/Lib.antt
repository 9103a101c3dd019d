pub mod Limits
pub mod Chunks
pub mod Pieces
pub mod Answers
pub mod Counts
pub mod Rows
