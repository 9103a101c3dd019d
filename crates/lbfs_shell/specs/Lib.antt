pub mod Caching
pub mod Ends
pub mod Jobs
pub mod Rows
