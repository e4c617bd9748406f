pub mod Numbers
pub mod Others
pub mod Steps
pub mod Splits
pub mod Turns
pub mod Fronts
pub mod Closes
