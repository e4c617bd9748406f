pub mod ReadBack
pub mod Turns
pub mod PlainWords
pub mod Worked
