pub mod Leases
pub mod Changes
pub mod Places
pub mod Xids
pub mod Rows
