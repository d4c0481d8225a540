pub mod Found
pub mod Halves
pub mod Forks
pub mod Onward
pub mod Passing
pub mod Drained
pub mod Falls
