pub mod Histories
pub mod Settling
pub mod Sessions
pub mod Reading
