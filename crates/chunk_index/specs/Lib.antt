pub mod Index
pub mod Placed
pub mod Rows
pub mod Known
pub mod Places
pub mod PlaceRows
