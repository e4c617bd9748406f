pub mod LinkedNodes
pub mod Changes
pub mod LinesChanged
pub mod Turns
pub mod Held
