pub mod Orders
pub mod Waits
pub mod Retained
pub mod HoldArrays
pub mod SeatLists
pub mod Blockers
pub mod KeyTables
pub mod KeyChecks
