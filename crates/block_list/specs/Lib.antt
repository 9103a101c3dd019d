pub mod Blocks
pub mod View
