pub mod Live
pub mod Parts
pub mod Sound
pub mod Plans
pub mod Happening
pub mod Example
