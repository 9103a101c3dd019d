pub mod Stat
pub mod Names
pub mod Line
pub mod Said
pub mod Show
pub mod Sent
pub mod Rows
