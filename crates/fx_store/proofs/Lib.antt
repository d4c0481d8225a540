pub mod Keeps
pub mod NewStores
pub mod PathMaps
pub mod Planning
pub mod Stores
pub mod Ends
pub mod Writing
pub mod PoolOrder
