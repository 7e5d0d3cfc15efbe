pub mod DoesLaws
pub mod FormLaws
pub mod AssertionLaws
pub mod ForgettingLaws
pub mod FreeLaws
pub mod GreatestLaws
