-- What was worked out by hand.
pub mod CommandLines
