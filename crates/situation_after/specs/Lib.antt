pub mod Actions
pub mod Begins
pub mod ComesNext
pub mod Counted
