pub mod Formatted
pub mod Found
pub mod Reading
pub mod Growing
pub mod Laying
