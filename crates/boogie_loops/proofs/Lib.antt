pub mod ViewLaws
pub mod WideTypeLaws
pub mod ProcsLaws
