pub mod Verdicts
pub mod UnitLaws
