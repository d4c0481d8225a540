pub mod Table
pub mod TableOpened
