pub mod EventText
pub mod Reading
pub mod Mistakes
