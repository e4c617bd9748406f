pub mod Views
pub mod Open
pub mod Script
pub mod Allowed
pub mod Legal
pub mod Moments
pub mod Laws
