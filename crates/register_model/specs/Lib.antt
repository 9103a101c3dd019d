pub mod Index
pub mod Raw
pub mod Register
pub mod Summary
pub mod Test
pub mod Text
pub mod Rows
