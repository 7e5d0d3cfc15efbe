pub mod OperatorLaws
pub mod TextLaws
pub mod SaidLaws
pub mod LetLaws
pub mod GivenLaws
pub mod ToldLaws
pub mod ReadLaws
pub mod LeafLaws
