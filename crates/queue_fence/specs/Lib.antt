pub mod Fence
pub mod Voters
