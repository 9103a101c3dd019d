pub mod Bytes
pub mod Fetched
pub mod Removed
pub mod Sparing
pub mod Stored
pub mod Touching
