pub mod Numbers
pub mod Points
pub mod Session
pub mod Ways
pub mod Wires
