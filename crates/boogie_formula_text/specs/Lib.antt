pub mod Names
pub mod Spells
pub mod Printed
pub mod Short
pub mod View
