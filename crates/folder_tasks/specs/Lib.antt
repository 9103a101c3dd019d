pub mod Getting
pub mod Putting
pub mod Rows
pub mod Tasks
pub mod Visiting
