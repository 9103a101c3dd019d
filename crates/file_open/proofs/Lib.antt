pub mod Ends
pub mod Going
pub mod Keeping
pub mod Sending
pub mod Slots
pub mod lemmas
