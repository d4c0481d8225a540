pub mod Command
pub mod Image
pub mod Stop
pub mod Outside
pub mod Lines
pub mod Shell
pub mod Mkfs
pub mod Top
