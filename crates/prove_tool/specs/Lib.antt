pub mod Call
pub mod Command
pub mod Ends
pub mod Lines
pub mod Parts
pub mod Status
pub mod Subject
pub mod Written
