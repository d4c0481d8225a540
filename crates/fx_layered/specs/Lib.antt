pub mod Layers
pub mod Gathered
pub mod NamedCuts
pub mod SoundAfter
