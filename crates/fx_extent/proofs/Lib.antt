pub mod Looked
pub mod Chains
pub mod Runs
pub mod SoFar
pub mod Rows
pub mod Pieces
pub mod Patched
pub mod Filed
