pub mod Blocks
pub mod Touched
pub mod Patches
pub mod Staged
pub mod Allocations
pub mod Listed
pub mod Reading
