pub mod HeadLaws
pub mod SentLaws
pub mod StreamLaws
pub mod MoreNames
pub mod WideNames
pub mod HoldLaws
