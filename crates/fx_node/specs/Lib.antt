pub mod Told
pub mod Waiting
pub mod Held
pub mod Portions
pub mod Reaped
pub mod Counts
