pub mod Filling
pub mod Items
pub mod Looks
pub mod Saved
pub mod Rows
