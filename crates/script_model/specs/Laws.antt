pub mod Postings
-- Words of the laws on scripts.
pub mod Fault
pub mod Sound
