mod OldestFirst
pub mod lemmas
