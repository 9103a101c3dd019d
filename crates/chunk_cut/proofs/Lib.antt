pub mod Chains
pub mod Feeding
pub mod Found
pub mod Scanned
pub mod Sliding
pub mod Windows
pub mod lemmas
