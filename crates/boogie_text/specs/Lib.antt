pub mod StmtView
pub mod Texts
pub mod Whole
pub mod Answers
pub mod PublicTokens
pub mod ReadExpr
pub mod ReadSteps
pub mod Tail
