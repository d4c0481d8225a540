pub mod CutParts
pub mod CutKeeps
