pub mod Claims
pub mod Orderly
