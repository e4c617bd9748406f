pub mod Layers
pub mod Answers
