-- What the groups keep of the work of seats.
pub mod GroupWorks
pub mod GroupGrowth
pub mod Room
pub mod AtSeat
