pub mod Answers
pub mod Columns
pub mod Searched
pub mod Tests
pub mod Unary
pub mod View
pub mod Within
