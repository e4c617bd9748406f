pub mod Flags
pub mod Generated
pub mod LinesOfText
pub mod ReadLines
pub mod Worked
