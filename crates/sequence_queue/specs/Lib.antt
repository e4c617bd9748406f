pub mod Heap
pub mod Ranked
