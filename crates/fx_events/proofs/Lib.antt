pub mod Numbers
pub mod Entries
pub mod Further
pub mod Answered
pub mod Texts
