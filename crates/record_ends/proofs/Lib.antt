pub mod Going
pub mod lemmas
