pub mod InBlocks
pub mod OneReading
pub mod ByUses
pub mod SoundImages
pub mod CutsSound
