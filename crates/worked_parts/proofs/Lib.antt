pub mod Fills
pub mod Samples
