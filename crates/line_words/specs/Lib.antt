pub mod FirstWord
pub mod Numerals
pub mod Steps
