pub mod AnswerLaws
pub mod FewUnits
