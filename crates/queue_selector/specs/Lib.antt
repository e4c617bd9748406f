pub mod FrontSet
pub mod Fronts
pub mod Rows
pub mod Selecting
pub mod Sorted
