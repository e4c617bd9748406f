-- What the scripts that are read are like.
pub mod Faults
pub mod Parts
pub mod Postings
pub mod Configuration
pub mod Declarations
pub mod Sound
pub mod Computing
pub mod Texts
pub mod LinesInTurn
pub mod Words
pub mod Lines
pub mod TaskLines
pub mod Canonical
