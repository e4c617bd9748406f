pub mod Earlier
pub mod Steps
pub mod Posting
pub mod Scopes
pub mod Limits
pub mod Lines
pub mod Words
pub mod Lint
