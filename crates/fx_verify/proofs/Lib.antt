mod KeptLaws
mod Found
mod Sums
mod Numbers
pub mod Moved
mod Judging
mod Sets
