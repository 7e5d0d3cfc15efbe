pub mod EndLaws
pub mod KindLaws
pub mod ShownLaws
pub mod TheoremLaws
