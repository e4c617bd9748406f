pub mod Posts
pub mod Jobs
pub mod Runners
