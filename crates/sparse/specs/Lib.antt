pub mod Map
pub mod Meaning
pub mod Tree
pub mod Filled
