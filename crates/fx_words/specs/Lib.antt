pub mod Faults
pub mod Lines
pub mod Said
pub mod Parts
pub mod LineWords
pub mod FullText
pub mod FullScript
