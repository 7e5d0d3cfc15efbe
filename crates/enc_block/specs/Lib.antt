pub mod Home
pub mod Encoding
pub mod Runs
pub mod Typed
pub mod Parts
pub mod Sizes
pub mod Fixed
pub mod View
