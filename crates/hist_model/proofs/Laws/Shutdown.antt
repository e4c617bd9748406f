-- What shutdown refuses, forbids and waits for.
pub mod Histories
pub mod Places
