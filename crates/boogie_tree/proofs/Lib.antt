mod BaseLaws
pub mod WholeLaws
pub mod LiteralLaws
