pub mod Growth
pub mod Worked
