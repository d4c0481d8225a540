pub mod Nodes
pub mod Trees
pub mod Changes
pub mod Commits
pub mod Wrong
