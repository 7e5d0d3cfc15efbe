pub mod Filled
pub mod Numbers
pub mod Opened
pub mod Procedure
