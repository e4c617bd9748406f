pub mod Mistakes
