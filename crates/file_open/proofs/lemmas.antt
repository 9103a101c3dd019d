-- What other crates may cite.
pub mod Comings
pub mod Pieces
