-- Which lines of a text are actions.
pub mod ActionLine
