pub mod Halves
pub mod Seen
pub mod BadNodes
pub mod Counted
pub mod BadBlocks
