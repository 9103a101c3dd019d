pub mod Again
pub mod Made
pub mod Texts
pub mod lemmas
