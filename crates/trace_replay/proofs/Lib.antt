mod SentDown
mod RawWay
pub mod Numbers
pub mod Pieces
pub mod Rounds
pub mod Bounded
pub mod Applied
pub mod lemmas
