pub mod Outcome
pub mod History
pub mod Transcript
pub mod Text
pub mod Told
