-- What other crates may cite.
pub mod Again
pub mod Bounds
pub mod Said
pub mod Sizes
