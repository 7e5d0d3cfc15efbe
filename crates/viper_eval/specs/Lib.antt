pub mod Answers
pub mod Lazy
pub mod Steps
pub mod View
