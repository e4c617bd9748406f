pub mod Pieces
pub mod Worked
