-- What other crates may cite.
pub mod Asking
pub mod Calls
pub mod Claiming
pub mod Events
pub mod Fresh
pub mod Granted
pub mod LeasesAt
pub mod Settles
pub mod Ways
