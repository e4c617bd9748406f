pub mod Orders
pub mod Plans
