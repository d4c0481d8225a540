pub mod Lists
pub mod Table
pub mod Links
pub mod Reach
pub mod Faults
pub mod Tree
