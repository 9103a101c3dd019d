pub mod Pieces
pub mod Laid
pub mod Temps
pub mod Covered
pub mod Rows
