pub mod Texts
pub mod Defined
pub mod Told
pub mod View
