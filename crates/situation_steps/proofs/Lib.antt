pub mod Best
pub mod ByLine
pub mod Counting
pub mod Places
pub mod SameLists
