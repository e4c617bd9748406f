pub mod Plain
pub mod Json
pub mod Mistakes
pub mod OpenPlain
pub mod OpenJson
