pub mod First
pub mod FullPrints
pub mod FullRules
pub mod FullScripts
pub mod Groups
pub mod PartEnds
pub mod ScriptRules
