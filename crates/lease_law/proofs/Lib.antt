pub mod KeptFiles
pub mod Farewells
pub mod lemmas
