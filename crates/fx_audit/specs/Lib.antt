pub mod Audited
pub mod Nodes
pub mod Claims
