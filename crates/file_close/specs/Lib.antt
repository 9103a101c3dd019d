pub mod Closing
pub mod Storing
pub mod Sending
