pub mod Fits
pub mod LogText
