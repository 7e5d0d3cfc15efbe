pub mod Saved
pub mod Encoding
pub mod Calls
pub mod Spelled
