pub mod Layers
pub mod Image
pub mod Faults
pub mod Reading
pub mod Found
pub mod Only
