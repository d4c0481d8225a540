pub mod Sorted
pub mod Rising
