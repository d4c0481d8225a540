pub mod Kept
pub mod Wrong
pub mod Written
