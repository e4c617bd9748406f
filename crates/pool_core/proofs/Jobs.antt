-- Jobs as the pool keeps them, and who is inside.
pub mod Insides
pub mod HeldItems
pub mod JobViews
pub mod JobTables
pub mod JobQueues
pub mod JobStands
pub mod JobSteps
pub mod AtJob
pub mod Yields
