pub mod Accepted
pub mod Framed
pub mod Parts
pub mod Verified
