pub mod Args
pub mod Data
pub mod Shown
