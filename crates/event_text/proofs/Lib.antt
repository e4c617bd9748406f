pub mod EventWords
pub mod EventLines
pub mod Latest
mod Worked
