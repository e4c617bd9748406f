pub mod Sums
pub mod Changes
pub mod Steps
pub mod Plays
pub mod Widths
pub mod Worth
pub mod Worked
