pub mod Bytes
pub mod Faults
pub mod Lists
pub mod Numbers
pub mod Orderings
pub mod TotalOrders
