pub mod Block
pub mod Decoding
pub mod Layer
pub mod Reading
pub mod Writing
pub mod Bound
