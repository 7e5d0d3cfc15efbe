pub mod Scalars
pub mod Maps
pub mod Moves
pub mod Lists
pub mod Printable
