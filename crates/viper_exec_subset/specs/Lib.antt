pub mod Unframed
pub mod Texts
