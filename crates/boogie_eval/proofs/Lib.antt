pub mod AnswerLaws
mod BorrowedLaws
mod ColumnLaws
mod IndexLaws
mod KeyLaws
pub mod LookupLaws
pub mod MapLaws
mod OperatorLaws
mod SearchLaws
mod SetLaws
pub mod WithinLaws
