pub mod Logged
pub mod Events
pub mod Tail
pub mod Inside
pub mod Core
