pub mod ChanceForms
pub mod StreamLeft
pub mod LogCuts
pub mod FoundShown
pub mod OneShown
pub mod TxnsKept
pub mod StateKept
