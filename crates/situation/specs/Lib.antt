pub mod Line
pub mod Situation
pub mod Same
pub mod Declared
pub mod Alike
pub mod Futures
pub mod Counts
pub mod Onward
