pub mod Walk
pub mod Children
pub mod Sample
