pub mod Sits
pub mod Holds
pub mod Workers
pub mod Splits
pub mod Beds
