-- How much work runs, and how much may.
pub mod Capacity
