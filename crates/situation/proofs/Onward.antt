pub mod Folds
pub mod Scopes
pub mod Line
pub mod Unripe
pub mod Tasks
pub mod Whole
