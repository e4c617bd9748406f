pub mod Clocks
pub mod Answers
pub mod Keys
pub mod Walks
