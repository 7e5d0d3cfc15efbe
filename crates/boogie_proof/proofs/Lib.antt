pub mod AnswerLaws
pub mod Refusals
