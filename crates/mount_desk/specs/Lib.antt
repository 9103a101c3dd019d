pub mod Calls
pub mod Course
pub mod Outlet
pub mod Turns
