pub mod Known
pub mod Seated
pub mod Rests
pub mod Turns
pub mod Spare
pub mod Scopes
