pub mod Groups
pub mod Jobs
pub mod Reached
pub mod Sources
pub mod Waits
