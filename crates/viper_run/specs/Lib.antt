pub mod Outcome
pub mod Ready
pub mod Steps
pub mod View
