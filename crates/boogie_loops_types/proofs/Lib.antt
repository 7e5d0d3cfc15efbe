pub mod HeadLaws
pub mod TargetLaws
pub mod NodeLaws
pub mod ProgramLaws
pub mod MarkLaws
