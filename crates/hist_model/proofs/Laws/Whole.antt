-- That a whole log loses nothing.
pub mod Rest
pub mod Items
pub mod Waiting
pub mod Workers
pub mod MainTasks
pub mod Losing
