pub mod Desk
pub mod Calls
pub mod Tasks
pub mod Items
pub mod Serving
pub mod Driving
