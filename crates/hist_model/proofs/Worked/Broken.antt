-- Histories that break a law of every legal log, each illegal where it breaks it.
pub mod Refusals
pub mod Fences
pub mod Shutdown
pub mod Starts
pub mod Singly
pub mod Entries
pub mod Whole
pub mod State
pub mod Order
