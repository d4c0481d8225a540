pub mod LiveOverLists
pub mod LiveByUse
pub mod UseOverEvent
pub mod UsesKept
pub mod CellsKept
pub mod OtherParts
pub mod NamedLayers
pub mod ReadsPut
