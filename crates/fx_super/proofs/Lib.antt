pub mod Lists
pub mod Parts
pub mod Blocks
pub mod Chosen
pub mod Judging
