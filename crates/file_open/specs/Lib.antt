pub mod Caching
pub mod Shape
pub mod Opening
pub mod Looking
pub mod Fetching
pub mod Sending
pub mod Rewriting
