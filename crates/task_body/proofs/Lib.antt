pub mod Progress
pub mod Consistent
