pub mod ChunkRows
pub mod Cuttings
pub mod Leases
pub mod Namings
pub mod Pieces
