pub mod Handing
pub mod Rousing
pub mod Doing
