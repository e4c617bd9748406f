pub mod Again
pub mod Choice
pub mod Held
pub mod Lesser
pub mod Moves
pub mod Parts
pub mod Sorting
