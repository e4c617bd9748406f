pub mod Following
pub mod Plans
pub mod Verdicts
