pub mod Numbers
pub mod Parses
pub mod Worked
