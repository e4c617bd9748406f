pub mod Allowed
pub mod Nearest
