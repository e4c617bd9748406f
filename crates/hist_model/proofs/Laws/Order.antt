-- The tasks of a sequence and of a main queue are taken in order.
pub mod Pasts
pub mod Keys
pub mod Draws
pub mod Lanes
pub mod Taken
