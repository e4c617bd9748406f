pub mod Summary
pub mod Cells
