pub mod Work
pub mod Group
pub mod Counts
