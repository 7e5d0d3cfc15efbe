pub mod View
pub mod Answers
pub mod Free
pub mod Kept
