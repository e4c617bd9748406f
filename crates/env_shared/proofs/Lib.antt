pub mod Sits
pub mod Refusals
pub mod Splits
pub mod Beds
pub mod Notes
