pub mod Said
pub mod Earlier
pub mod Objections
pub mod Lint
