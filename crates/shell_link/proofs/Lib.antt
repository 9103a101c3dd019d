pub mod Again
pub mod Hints
pub mod Noting
pub mod Running
