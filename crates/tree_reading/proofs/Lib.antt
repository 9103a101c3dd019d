pub mod Pages
pub mod lemmas
