pub mod Newest
pub mod Spoken
pub mod Replaced
pub mod Shared
