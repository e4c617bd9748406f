-- What the texts of logs promise.
pub mod Pieces
pub mod LogParts
pub mod LogLines
pub mod LogTexts
pub mod LogJsons
