pub mod Conflict
pub mod Table
pub mod Waiting
pub mod Holdings
pub mod Seats
