-- What crosses to C, and what it means.
pub mod Named
pub mod Requests
pub mod Asking
pub mod Told
pub mod Heard
pub mod StandsFor
pub mod Answers
pub mod Opening
pub mod Slots
