pub mod Ranks
pub mod Bars
pub mod Causes
pub mod Seats
