pub mod Roles
pub mod Word
pub mod Table
pub mod Tokens
pub mod Plays
pub mod Worth
