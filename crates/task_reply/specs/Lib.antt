pub mod Replies
pub mod Elaborated
pub mod Fault
pub mod Laws
pub mod Tables
