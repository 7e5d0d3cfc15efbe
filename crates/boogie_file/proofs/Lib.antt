pub mod Verdicts
pub mod StageLaws
pub mod FileLaws
pub mod FileAnswers
pub mod NamedLaws
