pub mod Boxes
pub mod Held
pub mod Kept
mod Rows
