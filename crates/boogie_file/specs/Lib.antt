pub mod Refusals
pub mod Accepted
pub mod Files
pub mod Parts
