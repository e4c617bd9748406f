pub mod Behind
pub mod Free
pub mod InHand
pub mod Nothing
pub mod Tasks
pub mod UnderWay
pub mod Waits
pub mod Wants
