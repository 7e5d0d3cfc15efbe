pub mod ViewLaws
mod LimitLaws
mod Rows
pub mod PieceLaws
mod WordLaws
pub mod LongestLaws
pub mod CutLaws
pub mod LexLaws
pub mod FormLaws
pub mod AnswerLaws
