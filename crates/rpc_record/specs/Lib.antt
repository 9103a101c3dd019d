pub mod Records
pub mod Progress
pub mod Framed
pub mod Spoilt
pub mod Header
pub mod Messages
pub mod Refused
pub mod Rows
