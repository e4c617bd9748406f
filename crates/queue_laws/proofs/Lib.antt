pub mod Orders
pub mod Fronts
pub mod Arrivals
pub mod Distinct
