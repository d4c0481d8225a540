pub mod Tried
pub mod Noted
