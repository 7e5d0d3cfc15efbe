pub mod Terms
pub mod Literals
pub mod Tables
pub mod View
pub mod Lawful
pub mod Kinds
