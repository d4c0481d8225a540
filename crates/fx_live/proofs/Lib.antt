pub mod Ordered
pub mod Stated
pub mod Together
pub mod Moved
pub mod Swapped
pub mod LineOrder
