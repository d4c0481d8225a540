pub mod Lists
pub mod Seats
pub mod Maps
pub mod Takes
pub mod Frees
pub mod Splits
pub mod Joins
pub mod Ends
