-- Each call keeps what the pool stands for.
pub mod Kept
pub mod EmptyPool
pub mod Posts
pub mod Takes
pub mod Ends
pub mod Scopes
pub mod Ripening
pub mod Ticks
pub mod Shutdown
pub mod Reprio
pub mod Others
