pub mod Region
pub mod Indexed
pub mod Lending
