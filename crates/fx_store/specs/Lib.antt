pub mod Nodes
pub mod Line
pub mod Mounted
pub mod Session
pub mod Inside
pub mod Opening
