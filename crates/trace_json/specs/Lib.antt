pub mod Trace
pub mod Text
pub mod Data
pub mod Faults
pub mod Spans
