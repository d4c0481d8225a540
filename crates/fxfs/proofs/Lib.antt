pub mod CommandRing
pub mod FaultsTold
pub mod FinalFlush
pub mod LinesTold
pub mod ListFronts
pub mod PrintedTexts
pub mod ShellEnding
pub mod SyncsTold
