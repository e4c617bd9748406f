pub mod Places
pub mod Seats
pub mod Shutdowns
pub mod Views
pub mod Turn
pub mod Plays
pub mod Closing
