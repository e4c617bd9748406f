pub mod Sequences
pub mod Links
pub mod Lines
