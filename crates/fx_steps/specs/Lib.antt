pub mod Refusals
pub mod Moved
pub mod Rows
pub mod Groups
pub mod Needs
pub mod Changes
