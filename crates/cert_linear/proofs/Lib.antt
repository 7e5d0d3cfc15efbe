pub mod SumLaws
pub mod RatioLaws
pub mod NumberLaws
pub mod PartLaws
pub mod ValueLaws
pub mod RowLaws
pub mod CodeLaws
pub mod FollowLaws
