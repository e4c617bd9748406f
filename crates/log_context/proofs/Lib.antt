pub mod LastSeen
pub mod Known
pub mod Working
pub mod Counting
pub mod Standing
pub mod Worked
