pub mod Fingerprint
pub mod Ring
pub mod Rows
