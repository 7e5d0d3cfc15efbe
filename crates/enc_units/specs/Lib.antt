pub mod Units
pub mod View
pub mod Steps
pub mod Written
pub mod Translates
pub mod Rows
pub mod Forms
