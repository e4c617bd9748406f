pub mod Posts
pub mod Earlier
pub mod Objections
pub mod Lint
