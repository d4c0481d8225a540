pub mod Notes
pub mod Ends
pub mod Lines
pub mod ByClient
