pub mod Layers
pub mod Super
pub mod Chosen
