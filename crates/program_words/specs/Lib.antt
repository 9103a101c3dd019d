pub mod Line
pub mod Words
pub mod Rows
pub mod FrontLine
pub mod Table
pub mod Front
pub mod FrontRows
