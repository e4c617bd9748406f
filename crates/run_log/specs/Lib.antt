pub mod Json
pub mod JsonRows
pub mod Beginnings
pub mod Entries
pub mod TextLines
