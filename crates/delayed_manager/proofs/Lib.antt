pub mod Sorting
pub mod Heap
