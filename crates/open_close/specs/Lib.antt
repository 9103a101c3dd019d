pub mod Walking
pub mod Step
pub mod Putting
pub mod Hashed
pub mod LeaseRows
pub mod Rows
