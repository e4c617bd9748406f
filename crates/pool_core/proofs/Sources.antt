-- The queues of sources, and what is chosen from them.
pub mod Queues
pub mod LaneReads
pub mod Listing
pub mod Following
pub mod Choosing
pub mod Best
pub mod Places
pub mod Moves
pub mod Idling
