pub mod Answers
pub mod Bad
pub mod Said
