pub mod Orders
pub mod Fronts
