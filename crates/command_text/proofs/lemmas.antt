-- What other crates may cite.
pub mod Again
pub mod Contents
pub mod Decimals
