pub mod Bars
pub mod Ranks
pub mod Looking
