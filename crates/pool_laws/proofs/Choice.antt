-- What waits, and what a worker takes next.
pub mod Waiting
pub mod Entering
pub mod Held
pub mod Candidates
pub mod Least
pub mod Posts
pub mod Sources
pub mod Best
