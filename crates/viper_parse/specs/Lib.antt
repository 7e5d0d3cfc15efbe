pub mod View
pub mod Header
pub mod Whole
pub mod Answers
