pub mod Arranged
pub mod Verdicts
pub mod Explained
pub mod ExplainedOpen
pub mod Opened
pub mod Outcomes
pub mod Tracing
pub mod TracingOpen
