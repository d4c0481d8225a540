pub mod Worked
pub mod Gained
