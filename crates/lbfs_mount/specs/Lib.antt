pub mod Cached
pub mod Heard
pub mod Mounts
mod Rows
pub mod Saved
pub mod Script
pub mod ScriptRows
