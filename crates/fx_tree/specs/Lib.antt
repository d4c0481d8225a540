pub mod Saying
pub mod Plans
pub mod Keys
pub mod Planned
