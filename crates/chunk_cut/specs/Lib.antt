pub mod Chunks
pub mod Cutting
pub mod Ends
pub mod Places
pub mod Rows
pub mod Search
