pub mod Seats
pub mod Layers
