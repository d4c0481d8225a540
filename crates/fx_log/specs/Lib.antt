pub mod Chosen
pub mod Chance
pub mod Raising
pub mod Ring
pub mod Log
