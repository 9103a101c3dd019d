pub mod Following
pub mod Giving
pub mod GivingTaken
pub mod Hearing
pub mod Ordering
pub mod Serving
pub mod lemmas
