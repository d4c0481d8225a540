pub mod Standing
pub mod Replay
pub mod Prefix
pub mod Journal
pub mod Mounted
