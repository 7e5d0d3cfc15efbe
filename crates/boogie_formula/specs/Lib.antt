pub mod Formula
pub mod View
pub mod Printable
pub mod Value
pub mod Types
pub mod Choices
pub mod Follows
