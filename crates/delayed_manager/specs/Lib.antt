pub mod Delayed
pub mod Heap
