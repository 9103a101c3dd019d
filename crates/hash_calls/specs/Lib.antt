pub mod Version
pub mod Calls
pub mod Lb
pub mod Back
pub mod Rows
