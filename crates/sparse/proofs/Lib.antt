pub mod Splits
pub mod Changes
pub mod MapLaws
pub mod Turns
pub mod MeaningLaws
pub mod Rows
pub mod Halves
pub mod Ends
