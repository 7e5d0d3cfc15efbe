pub mod NameLaws
pub mod ProcedureLaws
pub mod ReadLaws
pub mod Rows
