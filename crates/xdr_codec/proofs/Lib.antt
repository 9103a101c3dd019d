pub mod Reading
pub mod Handles
pub mod Programs
pub mod lemmas
