pub mod Pieces
pub mod Counted
pub mod Frames
