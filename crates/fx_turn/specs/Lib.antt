pub mod Lists
pub mod Parts
pub mod PartLaws
pub mod States
pub mod Views
pub mod Rule
