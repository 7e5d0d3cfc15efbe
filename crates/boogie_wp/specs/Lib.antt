pub mod Labels
pub mod Lifted
pub mod Build
pub mod Changes
pub mod View
pub mod Worked
