-- That no legal history of a sound script gets stuck before it is whole.
pub mod Made
pub mod Tasks
pub mod Quiet
pub mod Coming
pub mod Driver
pub mod Workers
pub mod Jobs
pub mod Blockers
pub mod Pump
pub mod Actions
pub mod Ways
pub mod Ends
