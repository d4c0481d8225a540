pub mod TableUses
