pub mod Arguments
pub mod Pieces
pub mod Sent
pub mod Parsed
