pub mod Labels
pub mod Limits
pub mod NameBytes
pub mod Names
pub mod Place
pub mod Reading
pub mod Rows
pub mod ShortName
