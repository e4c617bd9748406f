pub mod WordLists
pub mod LinesOfText
