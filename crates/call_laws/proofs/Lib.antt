pub mod Idle
pub mod Jobs
pub mod Plain
