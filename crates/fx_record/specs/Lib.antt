pub mod Record
pub mod Writing
pub mod Reading
pub mod Txns
pub mod Progress
pub mod Commits
