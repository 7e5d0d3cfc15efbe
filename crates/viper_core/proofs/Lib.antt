pub mod ViewLaws
pub mod BudgetLaws
mod Worked
mod WorkedTyped
mod Rows
pub mod TypingLaws
pub mod ScopeLaws
pub mod WeightLaws
pub mod FormedLaws
pub mod BodyLaws
pub mod LiteralLaws
pub mod WiderLaws
pub mod UnitLaws
pub mod PartLaws
pub mod StmtParts
pub mod CutLaws
pub mod TargetLaws
pub mod NodeLaws
