pub mod Arranged
pub mod Places
pub mod Seats
pub mod Walk
pub mod Following
pub mod Search
