-- Posts, keys, and the tasks of sequences.
pub mod Ready
pub mod Posts
pub mod Sequences
pub mod Arrivals
