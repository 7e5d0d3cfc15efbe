pub mod Steps
pub mod Answers
pub mod Outcome
pub mod Frames
pub mod View
