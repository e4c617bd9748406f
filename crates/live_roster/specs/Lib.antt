-- The words of the roster's contracts.
pub mod Wakes
pub mod StandsFor
pub mod Answers
pub mod Histories
