pub mod Walks
pub mod Gained
pub mod Resized
pub mod Trees
pub mod Empty
pub mod Items
pub mod Commits
