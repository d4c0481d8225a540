pub mod Walking
pub mod Trees
pub mod Order
pub mod Listed
pub mod TreeNames
pub mod Sampled
