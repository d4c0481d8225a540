pub mod Cuts
pub mod Escapes
pub mod Faults
pub mod Found
pub mod Names
pub mod Numbers
pub mod Prints
pub mod Scripts
pub mod Rules
pub mod Utf8
mod RuleTests
