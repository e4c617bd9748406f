pub mod Ends
pub mod Parts
pub mod Taken
pub mod Written
