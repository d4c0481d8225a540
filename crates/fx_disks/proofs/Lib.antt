pub mod Searched
pub mod Following
pub mod Choosing
pub mod Holding
pub mod Asking
pub mod Leaving
