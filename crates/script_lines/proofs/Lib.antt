pub mod LaterPlaces
pub mod ReadLine
