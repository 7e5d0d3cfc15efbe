pub mod Place
pub mod PlaceLaws
pub mod RowLaws
pub mod Numbers
pub mod Fronts
pub mod NameLaws
pub mod Lookups
