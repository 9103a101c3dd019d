pub mod Fields
pub mod Grammar
pub mod Reading
pub mod Refusals
pub mod Rows
