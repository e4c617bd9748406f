pub mod Open
pub mod Takers
pub mod Told
