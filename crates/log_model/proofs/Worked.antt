-- Texts that were worked out by hand.
pub mod Logs
