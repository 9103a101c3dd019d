pub mod Files
pub mod Chunks
pub mod Answers
pub mod Indexing
pub mod Entering
pub mod Writing
pub mod Calling
pub mod Rows
