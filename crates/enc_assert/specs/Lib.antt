pub mod Target
pub mod Held
pub mod Encoding
pub mod Alongside
pub mod Typed
pub mod Access
pub mod Calls
