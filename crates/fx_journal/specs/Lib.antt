pub mod Stream
pub mod Ring
pub mod Buffers
pub mod Writing
pub mod Ready
