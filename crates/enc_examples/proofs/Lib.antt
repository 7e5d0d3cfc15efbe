pub mod SearchLaws
pub mod Rows
