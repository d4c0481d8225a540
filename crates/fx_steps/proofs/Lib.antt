pub mod Below
pub mod MovedTree
pub mod Done
pub mod Kept
pub mod Left
pub mod Sized
pub mod Lines
