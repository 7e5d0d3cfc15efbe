pub mod Start
pub mod Chosen
pub mod Ready
pub mod Runs
pub mod Stepped
pub mod View
