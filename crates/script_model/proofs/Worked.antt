-- Scripts that were worked out by hand.
pub mod Tables
pub mod Faults
pub mod Limits
pub mod Reads
