pub mod Calm
pub mod Jobs
pub mod Joins
pub mod Items
pub mod Tasks
pub mod AddUp
pub mod CellTable
pub mod Worked
