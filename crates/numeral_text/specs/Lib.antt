pub mod Numeral
pub mod Number
