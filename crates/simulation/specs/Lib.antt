pub mod Awaited
pub mod Awaits
pub mod Clock
pub mod Draw
pub mod Schedule
pub mod Simulated
pub mod Turns
