pub mod Beginnings
pub mod Taken
pub mod JsonTexts
pub mod LineWords
pub mod LinesOfText
pub mod LogLines
pub mod SplitLines
