-- What is in a legal history of a sound script fits its types.
pub mod Pasts
pub mod Entries
