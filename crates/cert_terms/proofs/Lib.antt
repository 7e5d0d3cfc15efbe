pub mod ValueLaws
pub mod LiteralLaws
pub mod MeaningLaws
pub mod KeptLaws
pub mod TableLaws
pub mod GrowthLaws
pub mod KindLaws
pub mod PartLaws
