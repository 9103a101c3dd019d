pub mod Choices
pub mod Calls
pub mod Nfs
pub mod Rows
