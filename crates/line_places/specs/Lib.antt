pub mod Tables
pub mod Faults
pub mod First
pub mod Lengths
pub mod Bytes
pub mod Words
