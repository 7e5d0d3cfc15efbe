pub mod AnswerLaws
pub mod PlaceLaws
pub mod OperatorLaws
pub mod WithinLaws
pub mod ArgumentLaws
pub mod ExpressionLaws
pub mod BodyLaws
