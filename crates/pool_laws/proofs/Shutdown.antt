-- What shutdown waits for.
pub mod Tasks
pub mod Jobs
pub mod Blockers
