pub mod FirstWord
pub mod Numerals
pub mod Cuts
pub mod ReadSteps
