pub mod Chain
pub mod Names
pub mod PlanRows
pub mod Plans
pub mod Reading
pub mod Rows
pub mod Tree
pub mod View
