pub mod Cuts
pub mod Going
pub mod lemmas
