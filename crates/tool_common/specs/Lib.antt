pub mod Kind
pub mod Status
pub mod Ends
pub mod Written
