-- What seats run and hold, and what tasks hand on.
pub mod Running
pub mod Whose
pub mod Runs
pub mod Cells
