pub mod LegalLemmas
pub mod Marks
pub mod OpeningLemmas
pub mod Places
