pub mod Generated
pub mod Added
pub mod Marks
pub mod Scopes
pub mod Plain
pub mod Reader
