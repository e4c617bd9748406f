pub mod Passed
pub mod Taken
pub mod Writers
