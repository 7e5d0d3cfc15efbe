pub mod NumberLaws
pub mod FilledLaws
pub mod NamedMaps
pub mod NamesLaws
