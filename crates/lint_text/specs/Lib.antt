pub mod Quote
pub mod Expected
pub mod Text
pub mod Objections
