pub mod ContentLaws
pub mod FoldLaws
