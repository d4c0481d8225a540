pub mod Joined
pub mod Images
pub mod KeepsJoined
pub mod Mounted
pub mod Allocations
