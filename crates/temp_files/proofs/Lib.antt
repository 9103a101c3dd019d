pub mod Apart
pub mod Laying
pub mod Covering
pub mod Counts
pub mod TempLemmas
pub mod Wholes
pub mod lemmas
