pub mod Fresh
pub mod Judged
pub mod Whole
