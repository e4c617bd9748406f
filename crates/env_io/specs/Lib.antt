pub mod Bytes
pub mod Elapsed
pub mod Failing
pub mod Memory
pub mod Readings
pub mod Told
pub mod Gates
