pub mod First
pub mod Rooms
pub mod Listed
pub mod Named
pub mod Grown
pub mod Owned
pub mod Judged
