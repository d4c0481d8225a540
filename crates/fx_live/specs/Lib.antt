pub mod Live
pub mod Moving
