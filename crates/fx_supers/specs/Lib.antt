pub mod Supers
pub mod Cells
pub mod SessionLog
pub mod Shown
pub mod InMemory
