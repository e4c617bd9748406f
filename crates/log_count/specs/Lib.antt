pub mod Parts
pub mod Sources
pub mod Ways
pub mod After
pub mod Equal
pub mod Layers
pub mod Clocks
