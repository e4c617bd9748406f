pub mod Plans
pub mod Known
pub mod Lives
pub mod Scopes
pub mod Jobs
