pub mod Commands
pub mod Ops
pub mod Numbers
pub mod Session
pub mod Queue
pub mod Wires
pub mod Core
pub mod View
