pub mod Texts
