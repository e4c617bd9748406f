pub mod Actions
pub mod Begins
pub mod Comes
pub mod Counted
pub mod Places
