pub mod Found
pub mod Few
pub mod Tables
pub mod Told
pub mod FrontTold
