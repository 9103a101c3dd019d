pub mod Folder
pub mod Found
pub mod Rows
pub mod Edits
