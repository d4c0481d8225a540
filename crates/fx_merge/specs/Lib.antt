pub mod Choice
pub mod Cursor
pub mod Merge
pub mod Run
