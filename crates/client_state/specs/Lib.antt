pub mod Bounding
pub mod State
pub mod Local
pub mod Noting
pub mod Counting
pub mod View
pub mod Ending
pub mod Hints
