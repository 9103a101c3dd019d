pub mod Ends
pub mod Given
pub mod Heard
pub mod Ordered
pub mod Serve
