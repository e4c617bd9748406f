pub mod Few
pub mod Lines
pub mod Next
pub mod Seated
pub mod Ends
