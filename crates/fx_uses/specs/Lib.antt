pub mod Live
pub mod Uses
pub mod Events
pub mod Parts
pub mod Layers
