pub mod Held
pub mod Shots
pub mod Slots
pub mod Noted
pub mod State
pub mod Inner
