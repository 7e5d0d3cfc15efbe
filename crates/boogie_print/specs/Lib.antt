pub mod Printable
pub mod Short
pub mod Fresh
pub mod Read
pub mod Pieces
pub mod Names
pub mod Asserts
