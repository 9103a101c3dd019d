-- What other crates may cite.
pub mod Gathering
pub mod Lists
pub mod Order
