pub mod AtWork
pub mod Explained
pub mod RuledOut
