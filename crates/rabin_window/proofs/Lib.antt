pub mod Division
pub mod Entries
pub mod Rings
pub mod Rolling
