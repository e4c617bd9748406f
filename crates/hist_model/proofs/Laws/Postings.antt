-- Each task is posted at most once.
pub mod Driver
pub mod Tasks
pub mod Counts
pub mod Once
pub mod Differing
