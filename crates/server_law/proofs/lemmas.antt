-- What other crates may cite.
pub mod Asked
pub mod Growth
pub mod Steps
pub mod TreeCalls
pub mod Trees
