pub mod AtWork
pub mod Causes
pub mod Fitting
