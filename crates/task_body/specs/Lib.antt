pub mod Progress
pub mod Bodies
pub mod Kinds
pub mod Passes
