-- A legal log of a sound script has at most as many entries as the script's bound says.
pub mod Sums
pub mod Driver
pub mod Tasks
pub mod Jobs
pub mod Bound
