pub mod Memory
pub mod Kinds
pub mod Carried
