-- The words of the live core's contracts.
pub mod Calls
pub mod Books
pub mod Opening
pub mod StandsFor
pub mod Answers
pub mod Making
pub mod Histories
pub mod Waits
