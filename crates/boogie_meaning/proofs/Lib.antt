pub mod ForallLaws
pub mod BoundLaws
pub mod RunLaws
pub mod FitsLaws
mod TakenLaws
pub mod RunBoundLaws
pub mod TypeLaws
pub mod ProgramLaws
pub mod EnvironmentLaws
pub mod ValueLaws
pub mod TypedLaws
pub mod RunTypedLaws
pub mod RenamedLaws
pub mod AssumeLaws
pub mod PatternLaws
pub mod NodeLaws
