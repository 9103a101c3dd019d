pub mod Named
pub mod Refusals
pub mod NfsSizes
pub mod HashSizes
pub mod Sent
pub mod lemmas
